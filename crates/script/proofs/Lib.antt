pub mod Shown
pub mod Turning
pub mod Printed
pub mod FormatLine
pub mod Listed
