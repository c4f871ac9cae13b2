-- What only private contracts and proofs speak of.
pub mod Sizes
pub mod Named
pub mod Found
pub mod Steps
pub mod Rows
