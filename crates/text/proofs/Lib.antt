pub mod Reading
pub mod Starts
pub mod LongLine
pub mod Again
