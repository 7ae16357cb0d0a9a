pub mod Graph
pub mod Faults
pub mod Bits
pub mod Tables
pub mod Parts
pub mod Laws
