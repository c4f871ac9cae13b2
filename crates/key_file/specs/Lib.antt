pub mod Lines
pub mod Files
pub mod Faults
pub mod Texts
