pub mod Finishing
pub mod Playing
