-- What the contracts of `text` cite: definitions alone.
pub mod Text
pub mod Decimal
pub mod Buffer
