pub mod RankLemmas
pub mod FaultLemmas
pub mod MatrixLemmas
pub mod TableLemmas
pub mod SampleLemmas
pub mod SummaryLemmas
pub mod CompareLemmas
