-- Laws on what a drill means.
pub mod Meaning
pub mod Reported
pub mod Evaluation
pub mod Members
pub mod Totals
pub mod Finite
