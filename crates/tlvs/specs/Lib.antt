pub mod Tlvs
pub mod Filled
pub mod Places
