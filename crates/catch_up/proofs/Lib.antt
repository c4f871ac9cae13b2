pub mod Parts
pub mod Paces
pub mod Questions
pub mod Versions
pub mod OneVersion
pub mod Reports
