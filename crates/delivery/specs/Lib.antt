-- What the contracts of `delivery` cite: definitions alone.
pub mod Buffers
pub mod Working
pub mod Steps
