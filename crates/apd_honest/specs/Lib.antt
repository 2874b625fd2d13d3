pub mod Maintenance
pub mod Stores
pub mod Worlds
