-- What the contract of `hold` cites: definitions alone.
pub mod Lesson
