-- What the contracts of `exports` cite: definitions alone.
pub mod Exports
