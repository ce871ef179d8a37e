pub mod FlipLemmas
pub mod GateLemmas
pub mod IndexLemmas
pub mod LookLemmas
pub mod MarkLemmas
pub mod OnLineLemmas
pub mod SettlingLemmas
pub mod SpanLemmas
