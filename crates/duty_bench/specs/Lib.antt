pub mod Model
pub mod Stages
pub mod Awaited
pub mod Bounds
pub mod Reached
