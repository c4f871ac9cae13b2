-- Read in this order: Replies (what a client asks, and which datagrams are the site's reply),
-- Recoveries (when it has a site recover that), Exchanges (what a client's port does), Answers (what
-- the client is told), Repeats (one that asks until a bag is known). inner/ is for private contracts
-- and proofs.
pub mod Replies
pub mod Recoveries
pub mod Exchanges
pub mod Answers
pub mod Repeats
pub mod inner
