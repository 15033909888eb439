pub mod Due
pub mod Served
