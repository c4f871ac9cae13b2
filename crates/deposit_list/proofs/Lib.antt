pub mod Lists
pub mod Asking
pub mod Windows
pub mod Reports
pub mod Examples
