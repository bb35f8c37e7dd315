pub mod Checks
pub mod Looked
pub mod Refusals
