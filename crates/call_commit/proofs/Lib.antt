pub mod Committing
pub mod Calls
