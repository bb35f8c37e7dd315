pub mod Opened
pub mod Sessions
pub mod AtFault
pub mod Answered
pub mod Parts
