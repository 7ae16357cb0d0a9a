pub mod BitLemmas
pub mod GraphLemmas
pub mod TableLemmas
pub mod GkmLemmas
