mod Back
pub mod Driven
pub mod MendingLemmas
mod Pushed
mod Rising
pub mod RowsLemmas
mod Waiting
