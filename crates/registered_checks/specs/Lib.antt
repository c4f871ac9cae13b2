-- Read in this order: Held (the bags that folders hold), Comparisons (whether they are those that
-- are known, and what is reported of that), Deposits (that as a list of deposits), Checks (the
-- result of a check against known bags), Lists (and against the bytes of a list), Files (and
-- against a file, and where that is said).
-- inner/ is for private contracts and proofs.
pub mod Held
pub mod Comparisons
pub mod Deposits
pub mod Checks
pub mod Lists
pub mod Files
pub mod inner
