-- What the contracts of `values` cite: definitions alone.
pub mod Values
pub mod Steps
