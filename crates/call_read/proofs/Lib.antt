pub mod ReadLaws
pub mod Found
