pub mod PassingLemmas
pub mod PieceLemmas
pub mod WritingLoopLemmas
pub mod ReadingLemmas
mod MemoryLemmas
