pub mod Msd
pub mod Stands
