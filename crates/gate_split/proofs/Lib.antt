pub mod BuildingLemmas
pub mod CostLemmas
mod CountLemmas
pub mod EffectLemmas
pub mod FallingLineLemmas
pub mod FlipLemmas
pub mod LadderLemmas
pub mod MarkLemmas
pub mod NegativeLemmas
pub mod PieceLemmas
pub mod RoomyFlipLemmas
pub mod SplitListLemmas
pub mod WalkLemmas
pub mod WideLemmas
