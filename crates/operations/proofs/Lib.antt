pub mod Taken
pub mod Joined
