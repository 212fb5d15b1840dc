pub mod Integers
pub mod Machine
