-- `Unique` has the theorem that the results of drills are one thing, `Printing` how they are put behind each other.
pub mod Unique
mod Printing
