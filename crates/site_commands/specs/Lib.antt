-- Read in this order: FirstStarts (how a start begins with its cell), Paths (folders below one),
-- Services (what a process does that serves a site). inner/ is for private contracts and proofs.
pub mod FirstStarts
pub mod Paths
pub mod Services
pub mod inner
