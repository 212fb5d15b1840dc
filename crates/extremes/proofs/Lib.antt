-- `Meaning` has what follows of an answer by its meaning, `Peaks` that the answer put together from zones is the one asked for.
pub mod Each
pub mod Meaning
mod Limits
mod Peaks
mod Seeing
mod Examples
