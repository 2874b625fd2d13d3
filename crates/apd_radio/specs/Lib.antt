pub mod Calls
pub mod Drivers
pub mod Faults
pub mod Frames
pub mod Model
pub mod Recordings
