pub mod DecodedLaws
pub mod PendingLaws
pub mod Lent
pub mod Ranges
