pub mod Kept
pub mod Concluded
pub mod Begun
