-- What building a list with rounds comes to: definitions alone.
pub mod Value
pub mod Purse
