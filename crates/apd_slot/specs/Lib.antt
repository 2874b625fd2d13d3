pub mod Applying
pub mod Mending
pub mod Resumed
pub mod Resuming
pub mod Rows
pub mod Slots
pub mod Wanted
