-- What a site promises is read in this order: Contents (what its tables hold, by its records and by
-- what it has heard), Effects (the effect of a call), Arrivals (what a message does), Calls (what a
-- call does), Sites (what a site represents), Answered (when a call answers so), Batches (many
-- calls, and one sync), Datagrams, Opened, Faults. Before them come the words of `acceptor`,
-- `proposer` and `learner`, and of `book` Committed, Opened and Batches. A commit puts a record on
-- record; that a quorum has voted for a bag is `IsChosen` of `world_law`.
-- inner/ is for private clauses and proofs.
pub mod Contents
pub mod Effects
pub mod Datagrams
pub mod Arrivals
pub mod Calls
pub mod Sites
pub mod Answered
pub mod Batches
pub mod Opened
pub mod Faults
pub mod Reported
pub mod inner
