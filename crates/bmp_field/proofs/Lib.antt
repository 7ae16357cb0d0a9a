pub mod Reciprocals
pub mod RunLemmas
