pub mod Counted
pub mod Pairs
pub mod Operands
pub mod Row
pub mod Combined
