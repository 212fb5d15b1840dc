pub mod Theorems
pub mod Sharing
pub mod Cutting
pub mod Alternating
