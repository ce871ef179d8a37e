pub mod BuildingLemmas
pub mod LinkLemmas
pub mod MetLemmas
pub mod OneWayLemmas
pub mod PlaceLemmas
pub mod SettlingLemmas
