-- What the contracts of `evaluation` cite: definitions alone.
pub mod Evaluating
