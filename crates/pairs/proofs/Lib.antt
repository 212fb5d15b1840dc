pub mod Counted
pub mod Pairs
pub mod Zones
pub mod Combining
pub mod Turns
