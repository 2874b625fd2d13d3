pub mod Entries
pub mod Faults
pub mod FileWorld
pub mod HandedOut
pub mod Started
pub mod Worked
