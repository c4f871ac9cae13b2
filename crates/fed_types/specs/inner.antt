-- What only private clauses and proofs need.
pub mod After
pub mod Padded
pub mod PaddedLaws
pub mod WordLaws
pub mod Words
