pub mod BasisLemmas
pub mod CodeLemmas
pub mod DeriveLemmas
pub mod FormLemmas
pub mod PairLemmas
pub mod SumLemmas
