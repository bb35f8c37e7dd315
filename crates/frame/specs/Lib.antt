pub mod Fills
pub mod Checks
pub mod Frames
pub mod Gathered
pub mod RuleChecks
