pub mod PartingLemmas
pub mod LimitLemmas
pub mod ComparingLemmas
pub mod OutcomeLemmas
