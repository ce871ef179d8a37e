pub mod DeriveLemmas
pub mod RecordLemmas
pub mod TableLemmas
