-- What the contracts of `primaries` cite: definitions alone.
pub mod Spelling
