pub mod Outs
pub mod Run
pub mod Verdict
pub mod laws
pub mod rules
