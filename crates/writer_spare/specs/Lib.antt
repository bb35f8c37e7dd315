pub mod Typed
pub mod Spare
pub mod NaiSizes
pub mod Lending
