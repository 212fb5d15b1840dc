-- Laws on values and their rounds.
pub mod Values
