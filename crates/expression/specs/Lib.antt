pub mod Expression
pub mod Grammar
pub mod Refusal
pub mod Stored
pub mod Planted
