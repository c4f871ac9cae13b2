pub mod TogetherLemmas
pub mod EndLemmas
pub mod Halves
pub mod LawLemmas
pub mod ReadLemmas
pub mod SiteLemmas
pub mod Written
