pub mod Faults
-- what a federation represents, and the pieces of that
pub mod Sent
pub mod Seen
pub mod Inputs
pub mod Federations
