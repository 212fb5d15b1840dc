pub mod Parsing
pub mod Readers
