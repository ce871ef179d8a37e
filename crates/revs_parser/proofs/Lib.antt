pub mod PassingLemmas
pub mod StepLemmas
pub mod TokenLemmas
pub mod ReadingLemmas
pub mod NumberLemmas
pub mod ItemLemmas
pub mod ProgramLemmas
pub mod OneTextLemmas
