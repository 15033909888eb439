pub mod Leftovers
pub mod Witness
