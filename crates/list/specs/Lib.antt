pub mod Insert
pub mod Members
pub mod Slots
pub mod Steps
