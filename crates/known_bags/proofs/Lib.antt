pub mod Lists
pub mod Cells
pub mod Damage
pub mod Files
pub mod Kept
