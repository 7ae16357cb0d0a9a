pub mod Graded
pub mod Modules
pub mod NormalForms
pub mod Quotients
pub mod Maps
pub mod Components
pub mod Tuples
pub mod Statements
