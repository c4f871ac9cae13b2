-- Read in this order: Sealing (what a port with keys hands on), Histories (of sites with keys),
-- Laws (what is promised of them). Examples are two such histories.
pub mod Sealing
pub mod Histories
pub mod Laws
pub mod Examples
