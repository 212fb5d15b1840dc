-- What the contracts of `calls` and of the crates above cite: definitions alone.
pub mod Causes
pub mod Outcome
pub mod Within
pub mod Refusals
pub mod Steps
