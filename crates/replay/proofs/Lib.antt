pub mod Tables
pub mod Latest
pub mod Maps
