pub mod Started
pub mod Asks
pub mod Beside
