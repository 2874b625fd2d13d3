pub mod Keys
pub mod Least
pub mod Lists
pub mod Policy
