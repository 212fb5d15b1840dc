-- Laws of recordings.
pub mod Rounding
pub mod Refusals
pub mod Changes
