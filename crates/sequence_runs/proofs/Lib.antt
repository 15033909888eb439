pub mod Called
pub mod Performed
pub mod Shown
