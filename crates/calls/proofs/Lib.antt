-- Which outcome a call has: laws of lists of causes, of what a drill comes to, and of the steps of a call.
pub mod Causes
pub mod Comes
pub mod Rounds
pub mod Outcomes
pub mod Finding
pub mod Exchanged
