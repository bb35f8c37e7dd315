pub mod Looks
pub mod Determined
