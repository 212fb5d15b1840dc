pub mod Windows
pub mod Spelling
