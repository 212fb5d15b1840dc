-- `Listing`, `Numbers` and `Fronts` are for the crates above.
pub mod Listing
pub mod Numbers
pub mod Fronts
