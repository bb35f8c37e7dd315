pub mod TurnLaws
pub mod Rows
pub mod HearingLaws
pub mod Cut
pub mod Portions
pub mod ReachedLaws
