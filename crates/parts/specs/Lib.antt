pub mod Parts
pub mod Shares
