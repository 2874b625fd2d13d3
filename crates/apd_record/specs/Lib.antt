pub mod Meaning
pub mod Ranges
pub mod Record
