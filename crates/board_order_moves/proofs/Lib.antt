pub mod Moves
pub mod Finds
