pub mod Fault
pub mod Manifests
pub mod Named
pub mod Check
pub mod Complete
pub mod Valid
pub mod inner
