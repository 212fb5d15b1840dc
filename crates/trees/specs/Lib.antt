-- What the contracts of `trees` cite: definitions alone.
pub mod Trees
