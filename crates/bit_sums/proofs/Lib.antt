pub mod EqualityLemmas
pub mod GrowingLemmas
pub mod JoinLemmas
pub mod OwnLemmas
pub mod PartLemmas
pub mod SetLemmas
pub mod TotalLemmas
