pub mod Core
pub mod Heard
pub mod Held
pub mod Invariant
pub mod Requests
pub mod RowMoments
pub mod Silent
pub mod for_proofs
