pub mod Fills
pub mod Checks
pub mod Determined
pub mod Laws
pub mod OneKind
