pub mod Statuses
pub mod CommandLine
pub mod Reports
pub mod Runs
pub mod Headline
pub mod Passed
