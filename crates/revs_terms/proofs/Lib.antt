pub mod ShapeLemmas
pub mod PairedLemmas
pub mod LogLemmas
pub mod BitlessRunLemmas
pub mod BitlessTapeLemmas
pub mod OutputLemmas
pub mod TapeLemmas
