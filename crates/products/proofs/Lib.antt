pub mod Hulls
pub mod Blocks
pub mod Rows
