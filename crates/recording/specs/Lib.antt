-- What the contracts of `recording` cite: definitions alone.
pub mod Reading
pub mod Changes
pub mod Tests
