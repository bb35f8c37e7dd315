pub mod Determined
pub mod Kept
pub mod First
pub mod Results
