-- Read dgram's Heard first (what messages say that were heard). Then: Proposals (when a ballot is
-- ready, and what it proposes), VolatileStates (what a site has heard and begun since it was
-- opened), UnderWay (what a call has begun, where memory may run out), Steps (what a call makes of
-- both), BallotStates and Rows (what is kept of a ballot, and of a slot), Faults. inner/ is for
-- private contracts.
pub mod Proposals
pub mod VolatileStates
pub mod UnderWay
pub mod Steps
pub mod BallotStates
pub mod Rows
pub mod Faults
pub mod inner
