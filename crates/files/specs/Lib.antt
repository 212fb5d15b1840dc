-- What the contracts of `files` cite: definitions alone.
pub mod Files
