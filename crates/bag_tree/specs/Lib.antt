pub mod Algorithms
pub mod Digests
pub mod Fault
pub mod Path
pub mod Tree
pub mod Facts
pub mod inner
