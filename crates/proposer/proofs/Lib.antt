pub mod Gathered
pub mod Known
pub mod Promised
pub mod Noted
pub mod Tables
pub mod Stands
pub mod Issued
mod Examples
