-- What the contracts of `finder` cite: definitions alone.
pub mod Demands
