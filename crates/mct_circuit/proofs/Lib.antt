pub mod DepthLemmas
pub mod FlipLemmas
pub mod GateListLemmas
pub mod MoreLinesLemmas
pub mod ReversalLemmas
pub mod WeightLemmas
