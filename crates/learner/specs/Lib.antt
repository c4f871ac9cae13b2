-- Read dgram's Heard first (what messages say that were heard). Then: LearnedBags (when a bag was
-- chosen by what was heard), LearnerStates (what is kept of it). inner/ is for private contracts.
pub mod LearnedBags
pub mod LearnerStates
pub mod inner
