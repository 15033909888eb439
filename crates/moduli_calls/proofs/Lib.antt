pub mod Hashed
pub mod Lent
