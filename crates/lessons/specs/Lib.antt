-- What the contracts of `lessons` cite: definitions alone.
pub mod Lessons
pub mod Steps
