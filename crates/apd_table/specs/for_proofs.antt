-- How a table's fields stand for its state. What is said of a table above needs none of it.
pub mod BssRows
pub mod BssState
pub mod Members
pub mod Standing
pub mod Table
