pub mod Sound
pub mod Steps
pub mod Complete
pub mod Examples
