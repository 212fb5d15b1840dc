pub mod Pieces
pub mod Star
pub mod Steps
