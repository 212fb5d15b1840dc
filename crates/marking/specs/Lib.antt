-- What the contract of `sheet_of` cites: definitions alone.
pub mod Marking
