pub mod Lengths
mod Rooms
mod Rows
