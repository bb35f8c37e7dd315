pub mod Srv6
