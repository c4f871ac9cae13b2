pub mod Encoding
pub mod Decoders
pub mod Puts
pub mod Checksums
