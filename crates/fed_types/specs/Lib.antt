-- Read Ballots, Sites (members and their weights) and Quorums first. Laws has lemmas over all of
-- these, with their proofs, that many crates cite.
pub mod Bags
pub mod Ballots
pub mod Faults
pub mod Laws
pub mod Limits
pub mod Lists
pub mod Quorums
pub mod Sites
pub mod Slots
pub mod Values
pub mod Voters
pub mod inner
