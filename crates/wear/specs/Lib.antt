pub mod Wear
pub mod Shares
pub mod Performs
