pub mod Faults
pub mod Lists
pub mod Sources
pub mod inner
