pub mod WrittenAnswers
pub mod Listings
