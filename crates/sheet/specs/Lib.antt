-- What the contracts of `sheet` cite: definitions alone.
pub mod Sheet
pub mod Buffer
