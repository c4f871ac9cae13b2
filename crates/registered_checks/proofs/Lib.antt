pub mod Noted
pub mod Compared
pub mod Agreed
pub mod Paths
pub mod Listed
pub mod Said
pub mod Opened
pub mod Divided
