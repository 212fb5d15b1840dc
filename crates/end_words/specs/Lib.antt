-- What the contracts of `end_words` cite: definitions alone.
pub mod EndWords
