-- Read in this order: Cells (what the bytes of a cell say), Headless (bytes
-- without a whole header), Parts (what its pieces say), Lines (the text of its
-- records), Pieces (the same text, given piece by piece), Versions (what they
-- say of each version), Ledgers (the text of that), LedgerPieces (of pieces).
-- inner/ is for private contracts and proofs.
pub mod Cells
pub mod Headless
pub mod Parts
pub mod Lines
pub mod Pieces
pub mod Versions
pub mod Ledgers
pub mod LedgerPieces
pub mod inner
