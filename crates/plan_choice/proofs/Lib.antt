pub mod CopiedLemmas
pub mod LeanLemmas
pub mod SameLemmas
pub mod SearchLemmas
pub mod ShallowLemmas
pub mod SplitLemmas
