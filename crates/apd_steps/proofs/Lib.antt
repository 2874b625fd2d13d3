pub mod CallLemmas
pub mod RunLemmas
pub mod ServingLemmas
pub mod StepLemmas
