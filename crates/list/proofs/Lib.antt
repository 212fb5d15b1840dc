pub mod Antichain
pub mod Coverage
pub mod Members
pub mod Theorems
pub mod Slots
pub mod Scan
pub mod Puts
pub mod Copies
