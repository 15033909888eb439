pub mod Asked
pub mod Starting
