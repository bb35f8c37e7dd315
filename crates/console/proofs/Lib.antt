pub mod Determined
pub mod OneLine
