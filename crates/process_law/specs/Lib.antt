pub mod Processes
pub mod Examples
