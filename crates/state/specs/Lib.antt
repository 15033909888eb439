pub mod State
pub mod Slots
pub mod Held
pub mod Wide
pub mod Parts
