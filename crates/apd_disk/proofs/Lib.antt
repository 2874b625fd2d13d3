pub mod Calls
pub mod Crash
pub mod FileCall
pub mod Moments
pub mod Parts
