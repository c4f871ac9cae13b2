-- What only private contracts and proofs speak of.
pub mod Gathered
pub mod Standings
pub mod Marks
