pub mod Waiting
pub mod Waits
