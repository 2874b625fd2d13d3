pub mod ElementLemmas
pub mod Fields
pub mod FirstReason
pub mod ContentsLemmas
pub mod Senders
