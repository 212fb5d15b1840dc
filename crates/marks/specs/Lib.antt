-- What the contract of `mark` cites: definitions alone.
pub mod Marks
