pub mod State
pub mod Answers
pub mod Spelled
pub mod Rooms
