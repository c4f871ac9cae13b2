pub mod Heard
pub mod Written
pub mod Repeated
