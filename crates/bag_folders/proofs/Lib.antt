pub mod Taken
pub mod NamedDigests
mod Shown
