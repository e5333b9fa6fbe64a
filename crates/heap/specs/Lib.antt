pub mod Heaps
pub mod Sifts
pub mod Jobs
pub mod Coming
pub mod Releases
