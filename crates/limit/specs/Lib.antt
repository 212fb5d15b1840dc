pub mod Time
pub mod Limit
