pub mod Tables
pub mod Returns
pub mod Wording
