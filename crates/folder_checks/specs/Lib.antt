pub mod Verdicts
pub mod Explanations
pub mod Reports
pub mod Names
pub mod Json
pub mod Forms
