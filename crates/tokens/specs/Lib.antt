pub mod Words
pub mod Escapes
pub mod Grammar
pub mod Pushes
pub mod Slots
pub mod Written
