-- Laws of texts: how numbers read in decimal and how long they are, and how a text goes into a buffer.
pub mod Digits
pub mod Buffer
pub mod Signed
mod Examples
