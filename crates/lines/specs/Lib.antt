-- What the contracts of `lines` cite: definitions alone.
pub mod Lines
pub mod Taken
pub mod Steps
