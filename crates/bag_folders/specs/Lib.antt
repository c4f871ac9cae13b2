pub mod Pieces
pub mod Refusals
pub mod Folders
pub mod Disk
pub mod inner
