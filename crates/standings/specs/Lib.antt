-- Read in this order: Answers (what a datagram says of how a site stands), Rounds (who is asked,
-- and what is heard), Laws (what follows of that), Reports (what is written of it).
pub mod Answers
pub mod Rounds
pub mod Laws
pub mod Reports
pub mod Versions
pub mod inner
