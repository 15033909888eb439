pub mod Placing
