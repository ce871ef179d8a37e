pub mod AddingLemmas
pub mod CountLemmas
pub mod GatherLemmas
pub mod OwnLemmas
pub mod SumLemmas
pub mod StepLemmas
