pub mod BitLaws
pub mod Words
pub mod WordTables
