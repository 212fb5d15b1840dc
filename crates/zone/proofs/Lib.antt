pub mod Common
pub mod Closed
pub mod Tighten
pub mod Compose
pub mod Across
pub mod Narrow
pub mod Sharp
pub mod Tight
pub mod Fine
pub mod Begin
mod Bands
pub mod Means
pub mod Range
pub mod Lengths
pub mod Steps
pub mod Ranges
pub mod Laws
