pub mod View
pub mod Verdict
pub mod Dead
pub mod HeadTail
pub mod Append
pub mod LastRecords
pub mod Emptied
pub mod Rows
