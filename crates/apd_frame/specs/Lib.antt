pub mod Contents
pub mod Elements
pub mod Kinds
pub mod Octets
pub mod Outcome
pub mod Rates
pub mod Wire
