pub mod CompiledLemmas
pub mod FlipLemmas
pub mod NameLemmas
