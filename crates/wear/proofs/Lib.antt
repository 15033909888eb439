pub mod Counting
pub mod Laid
pub mod Pending
pub mod Asked
pub mod Made
pub mod Performed
pub mod Narrow
