pub mod Answered
pub mod AskKnown
