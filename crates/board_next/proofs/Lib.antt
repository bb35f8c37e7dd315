pub mod Along
pub mod Determined
