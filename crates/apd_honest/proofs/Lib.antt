pub mod Begun
pub mod Marks
pub mod Outright
pub mod Upkeep
