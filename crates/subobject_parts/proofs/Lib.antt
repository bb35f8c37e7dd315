pub mod Made
pub mod Pieces
