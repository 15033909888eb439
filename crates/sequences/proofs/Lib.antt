pub mod Order
pub mod Filled
