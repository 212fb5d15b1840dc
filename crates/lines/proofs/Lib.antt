-- For those who use the crate: `Parting` has the lines of any text, `Lined` says which texts are sheets, `Places` what `line` hands out. The others serve
-- the proofs of this crate alone.
pub mod Parting
pub mod Lined
pub mod Places
mod Store
mod Taking
