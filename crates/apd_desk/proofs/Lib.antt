mod Asking
mod Counting
mod EndLemmas
pub mod Giving
mod Holding
mod Noting
mod Replies
pub mod Serving
mod TendLemmas
mod TickLemmas
