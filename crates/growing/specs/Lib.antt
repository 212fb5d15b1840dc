pub mod Growth
pub mod Steps
