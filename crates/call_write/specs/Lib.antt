pub mod Found
pub mod Finding
