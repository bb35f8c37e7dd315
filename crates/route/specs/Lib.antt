pub mod Order
pub mod Picked
pub mod Parts
pub mod Routes
pub mod Asked
pub mod Alone
