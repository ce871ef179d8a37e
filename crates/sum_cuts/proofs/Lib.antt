pub mod CutLemmas
pub mod TableLemmas
pub mod WideLemmas
