pub mod FoundLine
pub mod ShortData
pub mod Whole
pub mod Asking
pub mod Line
pub mod Writing
