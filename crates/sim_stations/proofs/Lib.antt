mod Refusals
mod Came
mod Returns
mod Rest
mod Stops
pub mod Seen
pub mod Named
pub mod Found
pub mod Places
pub mod Puts
pub mod Ordered
