pub mod MeaningLemmas
pub mod PieceLemmas
pub mod PlaceLemmas
pub mod ProgramLemmas
pub mod RunLemmas
pub mod WayLemmas
