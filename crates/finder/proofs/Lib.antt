-- Demands is the page to read; the others are what it rests on, and what the crates above cite.
pub mod Answered
pub mod Unstopped
pub mod Calls
pub mod Sizes
pub mod Demands
pub mod Longer
