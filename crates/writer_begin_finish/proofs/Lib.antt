pub mod Checks
pub mod Determined
pub mod Laws
