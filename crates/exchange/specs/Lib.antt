-- What the theorems on lines and their results say: definitions alone.
pub mod Exchange
