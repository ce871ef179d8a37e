pub mod ByteLemmas
pub mod DigitLemmas
pub mod GapLemmas
pub mod PlaceLemmas
pub mod RunLemmas
