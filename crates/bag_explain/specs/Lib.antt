pub mod Lines
pub mod LineNumbers
pub mod Listings
pub mod Places
pub mod Wrong
pub mod Findings
pub mod inner
