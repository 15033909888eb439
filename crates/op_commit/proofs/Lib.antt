pub mod CommitMade
pub mod Turns
pub mod CommitPieces
