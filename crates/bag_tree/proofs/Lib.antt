pub mod Below
pub mod Known
pub mod PlaceLaws
