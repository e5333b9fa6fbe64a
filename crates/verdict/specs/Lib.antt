pub mod Test
pub mod Ranges
pub mod Laws
pub mod Examples
