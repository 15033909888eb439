pub mod WideGoing
pub mod Leaning
pub mod Starting
pub mod Asking
pub mod Allowing
pub mod Calls
