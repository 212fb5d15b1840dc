-- What the contracts of `outcome` cite: definitions alone.
pub mod Outcome
