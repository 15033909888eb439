pub mod Calls
pub mod Runs
pub mod Turns
pub mod Shown
