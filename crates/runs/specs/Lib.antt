-- What the contracts of `runs` and of the crates above cite: definitions alone.
pub mod Levels
pub mod Runs
pub mod Events
pub mod Scan
pub mod Search
