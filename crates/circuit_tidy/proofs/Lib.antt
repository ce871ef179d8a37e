pub mod BitRowLemmas
pub mod BlockLemmas
pub mod EliminationLemmas
pub mod PairLemmas
pub mod ParityLemmas
pub mod SweepLemmas
pub mod TidyLemmas
