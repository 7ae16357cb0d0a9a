pub mod BuiltGraphs
pub mod Building
pub mod WholeSpaces
pub mod Tasks
