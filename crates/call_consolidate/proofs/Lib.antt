pub mod Turns
pub mod Freeing
