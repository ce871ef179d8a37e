pub mod CopiedLemmas
pub mod GateLemmas
pub mod GraphLemmas
pub mod JoinLemmas
pub mod LevelLemmas
pub mod LineLemmas
pub mod PlanLemmas
pub mod StraightLemmas
