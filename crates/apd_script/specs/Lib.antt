pub mod Configured
pub mod Faults
pub mod Lines
pub mod OnFile
pub mod Refused
pub mod Script
