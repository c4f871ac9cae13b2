-- Read in this order: Evidence (the records of cells), Laws (what they show), Findings (what they
-- say of a version), Tables (what is kept of them). inner/ is for private contracts and proofs.
pub mod Evidence
pub mod Laws
pub mod Findings
pub mod Tables
pub mod inner
