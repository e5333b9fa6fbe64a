pub mod Filled
pub mod Lines
pub mod Examples
