pub mod Parts
pub mod SessionRules
