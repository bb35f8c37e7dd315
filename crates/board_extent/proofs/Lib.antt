pub mod Loops
pub mod Reached
