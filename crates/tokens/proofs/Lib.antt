pub mod Text
pub mod Grammar
pub mod Numbers
pub mod Tokens
