pub mod Examples
pub mod Lines
pub mod Refusals
pub mod Written
