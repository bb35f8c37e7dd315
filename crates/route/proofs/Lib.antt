pub mod Answer
pub mod Numbers
pub mod Order
pub mod Theorems
pub mod Strays
pub mod Setups
pub mod Alone
