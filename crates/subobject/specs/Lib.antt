pub mod Inner
pub mod Layout
pub mod Rules
pub mod Segments
