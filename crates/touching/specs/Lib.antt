pub mod Sharing
