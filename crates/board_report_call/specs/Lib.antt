pub mod Reported
pub mod Checks
