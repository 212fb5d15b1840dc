pub mod Steps
pub mod Nestings
