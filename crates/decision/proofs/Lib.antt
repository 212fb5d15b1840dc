-- Laws on which stretches fit a drill.
pub mod Unions
pub mod Repetition
pub mod Drawn
pub mod Theorems
