pub mod Four
pub mod Strays
