pub mod Boarded
