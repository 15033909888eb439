mod OneStep
pub mod Told
mod Running
