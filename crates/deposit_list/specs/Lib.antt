-- Read in this order: Lists (the lines of deposits), Standings (how one stands by the site's
-- replies), Lines (what is said of it), Windows (how a window of them is sent and asked for),
-- Reports (what is written of all). inner/ is for private contracts and proofs.
pub mod Lists
pub mod Standings
pub mod Lines
pub mod Windows
pub mod Reports
pub mod inner
