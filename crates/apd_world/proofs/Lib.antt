pub mod Accounts
pub mod EndLemmas
mod FailLemmas
mod FollowLemmas
pub mod FromSteps
mod Moving
mod CutShort
mod Order
pub mod Goings
mod HistoryBegins
pub mod CoreHistories
mod HistoryLemmas
mod Lasting
mod Joining
mod ResumeLemmas
mod SlotLemmas
mod RoundLemmas
mod SoFar
pub mod RunLemmas
pub mod DurableSteps
mod Speaking
pub mod StepLemmas
mod Replies
mod ReplaceLemmas
mod Words
