pub mod Rests
