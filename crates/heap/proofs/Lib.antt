pub mod Orders
pub mod Sifting
pub mod Placing
pub mod Storing
pub mod EntryKinds
pub mod Coming
