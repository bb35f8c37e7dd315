pub mod Forms
pub mod Names
