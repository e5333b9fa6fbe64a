pub mod Words
pub mod Lanes
pub mod Waiting
pub mod LanesLemmas
pub mod Joins
