pub mod RootPairs
pub mod PositiveRoots
pub mod Closing
pub mod CartanRules
pub mod Pairs
pub mod RootSystems
pub mod Statements
