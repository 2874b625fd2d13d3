pub mod Calls
pub mod Committing
pub mod Handing
pub mod Run
pub mod Serving
