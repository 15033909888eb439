pub mod AnyOrder
pub mod Carried
pub mod FormatOrder
