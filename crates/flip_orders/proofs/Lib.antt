pub mod CircuitLemmas
pub mod DepthLemmas
pub mod OrderLemmas
pub mod ReorderingLemmas
pub mod StepLemmas
pub mod TurnLemmas
