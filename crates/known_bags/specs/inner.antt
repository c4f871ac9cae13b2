-- What only private contracts and proofs speak of.
pub mod Lines
pub mod Lists
pub mod Sources
