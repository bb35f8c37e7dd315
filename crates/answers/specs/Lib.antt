pub mod Numbers
pub mod Reasons
pub mod Verdicts
pub mod First
