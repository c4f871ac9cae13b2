pub mod Decoded
pub mod Takes
pub mod Stands
pub mod Told
pub mod Accounts
pub mod Reached
pub mod Deposited
pub mod HandedOut
