pub mod Scanning
pub mod Guessing
pub mod Back
pub mod Sentences
pub mod Theorem
