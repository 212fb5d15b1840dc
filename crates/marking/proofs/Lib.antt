-- `Printing` goes from a call to the printed text.
pub mod Printing
