pub mod Jobs
pub mod Sorted
pub mod Order
pub mod Refusals
pub mod Waiting
pub mod Laws
pub mod Examples
