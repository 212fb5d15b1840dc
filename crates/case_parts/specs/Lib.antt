-- What the contracts of `case_parts` cite: definitions alone.
pub mod Cases
pub mod Zero
