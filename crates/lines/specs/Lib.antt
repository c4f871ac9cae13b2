-- Read in this order: Notices (what is said of what a site did), Named (its line), Texts (its
-- text).
pub mod Notices
pub mod Named
pub mod Texts
