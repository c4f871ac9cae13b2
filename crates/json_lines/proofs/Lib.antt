pub mod FormLemmas
pub mod Values
pub mod LineText
pub mod Laws
