pub mod Driven
pub mod Recorded
pub mod StoreDisk
