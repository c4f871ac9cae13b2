-- Decisions says what an acceptor answers to a Prepare and an Accept, Rows what it keeps of a slot.
pub mod Decisions
pub mod Rows
pub mod inner
