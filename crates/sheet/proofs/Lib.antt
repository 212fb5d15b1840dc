-- Laws of sheets. `Bounds` says how long one is; the others are about its pieces, and what is answered of it.
pub mod Sheet
pub mod Bounds
mod Examples
