pub mod Same
pub mod Theorem
