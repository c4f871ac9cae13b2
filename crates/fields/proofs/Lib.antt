pub mod Utf8
pub mod Bytes
pub mod Fields
pub mod Checksums
