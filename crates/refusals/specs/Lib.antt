pub mod Met
pub mod Told
