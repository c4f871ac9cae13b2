pub mod Explained
pub mod Several
pub mod Names
pub mod JsonValues
pub mod Findings
