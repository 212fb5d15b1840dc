-- `Trimmed` has the text of a drill without its final newline, `Held` what a buffer holds of a file, `Filled` what a read adds to a buffer.
pub mod Trimmed
pub mod Held
pub mod Filled
