pub mod Placed
pub mod Needed
