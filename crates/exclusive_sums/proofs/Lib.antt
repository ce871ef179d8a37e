pub mod CubeLemmas
pub mod FillingLemmas
pub mod InputLemmas
pub mod MergingLemmas
pub mod MonomialSetLemmas
pub mod PolyLemmas
pub mod StepLemmas
