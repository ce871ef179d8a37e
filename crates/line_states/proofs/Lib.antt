pub mod EndLemmas
pub mod GateLemmas
pub mod GatherLemmas
pub mod PlaceLemmas
pub mod StateLemmas
pub mod ToggleLemmas
pub mod ValueLemmas
