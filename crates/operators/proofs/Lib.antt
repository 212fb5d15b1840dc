pub mod Members
pub mod Theorems
pub mod Listings
