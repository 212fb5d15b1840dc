pub mod Checks
pub mod Additions
pub mod Parses
pub mod Levels
