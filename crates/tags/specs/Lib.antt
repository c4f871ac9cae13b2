pub mod Hmac
pub mod Tags
pub mod Rings
pub mod Seals
