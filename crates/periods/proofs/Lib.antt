pub mod Entries
pub mod Divisors
pub mod Codes
