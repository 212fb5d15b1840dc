-- What the contracts of `extremes` cite: definitions alone.
pub mod Ends
pub mod Asking
pub mod Steps
