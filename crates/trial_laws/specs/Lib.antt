pub mod Pages
pub mod Inputs
pub mod Ends
pub mod Counts
pub mod Places
pub mod Witness
