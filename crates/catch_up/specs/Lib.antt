-- Read in this order: Lines (what is said of a version), Rounds (how a site is asked, and what it
-- answers), Times (how long it is asked, and what is waited for between), Reports (what is written
-- of that). inner/ is for private contracts and proofs.
pub mod Lines
pub mod Rounds
pub mod Times
pub mod Reports
pub mod inner
