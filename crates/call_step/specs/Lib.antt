pub mod NextStore
