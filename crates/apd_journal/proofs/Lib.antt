pub mod Growth
pub mod Halves
pub mod Once
pub mod Parsing
