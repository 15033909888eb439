pub mod Going
pub mod Unread
