pub mod Keys
pub mod Tracks
pub mod Targets
pub mod Determined
