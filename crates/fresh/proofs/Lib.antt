pub mod FreshWords
pub mod FreshMounts
pub mod Puts
pub mod FreshStores
