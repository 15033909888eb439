pub mod Cutting
pub mod Feeding
pub mod Buffers
