pub mod GateLemmas
pub mod LaneLemmas
pub mod PackingLemmas
pub mod PlaneLemmas
pub mod RowLemmas
