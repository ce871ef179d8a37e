pub mod FormLemmas
pub mod KnownLemmas
pub mod RowLemmas
pub mod ToggleLemmas
pub mod WindowLemmas
