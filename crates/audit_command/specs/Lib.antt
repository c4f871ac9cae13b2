-- Read in this order: Arguments (what is asked for), Files (what reading gives), CellReadings (what
-- each cell is worth), Versions (what is found of each version), Lines (the text of both), Audits
-- (what the command answers), Conflicts (what it says of two bags of one version).
-- Words has what is said of a cell that isn't read, Mentions of one that names a bag of a conflict.
-- inner/ is for private contracts and proofs.
pub mod Arguments
pub mod Files
pub mod CellReadings
pub mod Versions
pub mod Lines
pub mod Audits
pub mod Conflicts
pub mod Words
pub mod Mentions
pub mod inner
