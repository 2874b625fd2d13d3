pub mod Moment
pub mod Parts
