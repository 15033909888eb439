pub mod Lengths
pub mod Composing
pub mod Printable
