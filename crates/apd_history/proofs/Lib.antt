pub mod Called
pub mod Fronts
pub mod Moves
pub mod Chains
pub mod Noting
pub mod Runs
pub mod Maps
