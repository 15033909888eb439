pub mod Bytes
pub mod Parts
pub mod WordLaws
pub mod Runs
pub mod Over
