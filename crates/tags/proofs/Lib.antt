pub mod SealLemmas
