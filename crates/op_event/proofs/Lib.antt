pub mod Long
pub mod LinesMade
pub mod Lines
