-- What a drill means: definitions alone.
pub mod Satisfies
pub mod Fits
pub mod Lists
