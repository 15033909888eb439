pub mod Numbers
pub mod Unheld
