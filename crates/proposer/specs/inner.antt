pub mod BallotStates
pub mod Rows
