pub mod Tests
pub mod Below
pub mod Tab
pub mod Rows
pub mod Count
