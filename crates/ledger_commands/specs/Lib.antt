pub mod Answers
pub mod Journals
pub mod Ledgers
pub mod inner
