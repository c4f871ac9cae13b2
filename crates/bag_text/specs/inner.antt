-- What only private clauses and proofs need.
pub mod Starts
