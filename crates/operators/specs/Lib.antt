pub mod Operators
pub mod Listing
