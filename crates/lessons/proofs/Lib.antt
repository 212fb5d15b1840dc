-- `Lessons` has the theorem that a lesson prints one text; the others are what the functions come to.
pub mod Lessons
mod Judging
mod Printing
