-- What follows from the definitions: the laws that callers cite.
pub mod Bags
pub mod Ballots
pub mod Lists
pub mod Quorums
pub mod Sites
pub mod Slots
pub mod Voters
