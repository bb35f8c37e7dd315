pub mod Calls
pub mod Followers
pub mod Moved
