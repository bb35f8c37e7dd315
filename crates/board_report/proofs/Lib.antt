pub mod Reports
pub mod Determined
