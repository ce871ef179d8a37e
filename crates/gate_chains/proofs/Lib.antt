pub mod ChainLemmas
pub mod CopyLemmas
pub mod DepthLemmas
pub mod NodeLemmas
