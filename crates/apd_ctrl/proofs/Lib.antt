pub mod Addresses
pub mod ArgumentLemmas
pub mod CommandLemmas
pub mod OutcomeLemmas
pub mod Rising
pub mod WordLemmas
