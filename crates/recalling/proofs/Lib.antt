pub mod Recalled
