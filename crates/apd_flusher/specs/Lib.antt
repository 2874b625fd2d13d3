pub mod Committing
pub mod Flushing
pub mod Handing
pub mod Loading
pub mod Outside
pub mod Phases
pub mod Turning
