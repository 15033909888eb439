pub mod Asked
pub mod Copied
pub mod Stored
