pub mod After
pub mod Ones
pub mod SetBits
pub mod Sums
pub mod Numbers
pub mod Weights
