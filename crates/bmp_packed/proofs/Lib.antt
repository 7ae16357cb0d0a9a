pub mod WordLemmas
pub mod WordRowLemmas
