pub mod Rows
pub mod Tables
pub mod Faults
pub mod Sheet
pub mod Reading
pub mod Writing
pub mod Laws
pub mod Examples
