pub mod Ends
pub mod Puts
