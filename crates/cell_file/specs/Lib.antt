-- HostFiles is what is known of a file of the system; TextEnds, where a cell's records end;
-- SyncedTexts, what a site says beside its cell.
pub mod HostFiles
pub mod TextEnds
pub mod SyncedTexts
