pub mod Labels
pub mod Edges
pub mod Laws
pub mod Building
