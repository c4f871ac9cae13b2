-- What only private contracts and proofs speak of.
pub mod Answers
pub mod Notes
