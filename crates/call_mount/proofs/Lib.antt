pub mod Found
pub mod Columns
pub mod MapFilled
pub mod Replaced
pub mod Formatting
