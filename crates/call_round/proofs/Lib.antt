pub mod Finishing
pub mod Keeping
pub mod Lengths
pub mod Playing
pub mod InLists
