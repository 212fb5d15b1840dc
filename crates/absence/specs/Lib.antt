pub mod Absence
pub mod Steps
