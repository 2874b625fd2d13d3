pub mod CommitterCalls
pub mod Turns
