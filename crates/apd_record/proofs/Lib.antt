pub mod Absent
pub mod Fronts
pub mod Lengths
pub mod Parts
pub mod Progress
pub mod Unique
