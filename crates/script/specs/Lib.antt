pub mod Turns
pub mod Performed
pub mod Listing
pub mod Work
