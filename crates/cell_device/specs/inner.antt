-- What only private clauses, the laws of the implementations of `Cell`, and proofs need.
pub mod Undone
pub mod Mediums
pub mod Turns
pub mod Laws
