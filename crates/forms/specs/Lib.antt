pub mod Forms
pub mod Sized
