pub mod Round
pub mod InLists
pub mod Kept
