pub mod PartLemmas
pub mod RenumberingLemmas
pub mod RoomLemmas
pub mod WalkLemmas
