pub mod Limits
pub mod Vertices
pub mod Intervals
pub mod Statements
pub mod Growth
pub mod Numbering
pub mod IntervalViews
