pub mod Parts
pub mod Readable
