pub mod Checking
pub mod Formatting
pub mod Listing
pub mod Missing
pub mod Upgrading
