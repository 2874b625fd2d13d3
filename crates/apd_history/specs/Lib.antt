pub mod Calling
pub mod Chain
pub mod Names
pub mod Opening
pub mod Views
