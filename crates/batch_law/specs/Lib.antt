pub mod OnDisks
pub mod Laws
