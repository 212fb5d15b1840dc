-- What the contracts of `results` cite: definitions alone.
pub mod Results
pub mod Steps
