pub mod Turns
pub mod Input
pub mod Reached
