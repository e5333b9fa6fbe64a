pub mod Rows
pub mod Bits
pub mod Fresh
pub mod Leading
pub mod Puts
pub mod Takes
