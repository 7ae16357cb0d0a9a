pub mod RankLines
pub mod FaultLines
pub mod GraphText
pub mod TableText
pub mod SampleJobs
pub mod SampleViews
pub mod SummaryText
pub mod CompareText
