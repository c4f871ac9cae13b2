-- What only private contracts and proofs speak of.
pub mod Heard
pub mod Written
pub mod Repeated
