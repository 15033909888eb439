pub mod Inputs
pub mod Listings
pub mod Plain
pub mod Copies
pub mod Witness
