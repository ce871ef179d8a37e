pub mod FormLemmas
pub mod FlipLemmas
pub mod JudgeLemmas
pub mod NodeLemmas
pub mod RewrittenLemmas
pub mod StartLemmas
