pub mod Limits
pub mod Places
pub mod Lines
pub mod Files
pub mod Faults
pub mod Texts
pub mod Numbers
pub mod inner
