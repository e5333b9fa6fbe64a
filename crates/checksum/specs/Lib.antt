pub mod Sums
pub mod Draws
