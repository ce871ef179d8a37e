pub mod RunLemmas
pub mod CircuitLemmas
mod WiderLemmas
pub mod ConvertLemmas
pub mod TidyLemmas
