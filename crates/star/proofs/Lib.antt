pub mod Rounds
pub mod Composed
pub mod Bound
pub mod Members
pub mod Theorems
pub mod Closings
pub mod Turning
