-- How a core's fields stand for what it holds, and what its own functions keep meanwhile. What is said of a core above
-- needs none of it.
pub mod ChangedRows
pub mod Core
pub mod CoreCodes
pub mod HeldCodes
pub mod LaidDown
pub mod TakingBack
