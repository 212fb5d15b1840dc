pub mod Tokens
pub mod Readers
