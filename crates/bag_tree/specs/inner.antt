pub mod Taken
pub mod Kept
pub mod Contents
pub mod Places
