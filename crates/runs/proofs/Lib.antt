-- Laws of runs. `Scan` serves the proofs of this crate alone; the others are for those who use it.
pub mod Levels
pub mod Rising
pub mod Runs
mod Scan
pub mod Handed
pub mod Events
pub mod Examples
