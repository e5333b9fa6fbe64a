pub mod Urgency
pub mod Orderings
pub mod Counting
pub mod Lawful
pub mod Puts
