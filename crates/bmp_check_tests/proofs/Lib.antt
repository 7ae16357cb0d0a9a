pub mod FixtureLemmas
pub mod BlockLemmas
