-- `Theorems` is the page to read; the others are what it rests on.
mod Lengths
mod Alone
pub mod Theorems
