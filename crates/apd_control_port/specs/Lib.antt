pub mod Commands
pub mod Replied
pub mod Tags
