pub mod Described
pub mod LineByte
