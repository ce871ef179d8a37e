pub mod CutLemmas
pub mod LexingLemmas
pub mod MoveLemmas
pub mod RunTestLemmas
pub mod SomeTokensLemmas
pub mod TokenLemmas
