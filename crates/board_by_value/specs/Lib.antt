pub mod Back
pub mod ByValue
