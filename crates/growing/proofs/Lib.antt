pub mod Loops
pub mod Late
pub mod Puts
pub mod Going
