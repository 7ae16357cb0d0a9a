mod ExampleLemmas
mod CounterLemmas
pub mod Soundness
pub mod Counting
pub mod TopCounts
pub mod EvidenceLemmas
pub mod FaultLemmas
pub mod CompareLemmas
pub mod CoverSides
pub mod CoverTheorems
pub mod GeneratorLemmas
pub mod InputLemmas
pub mod BoundaryParts
