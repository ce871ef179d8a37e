-- What only private contracts and proofs cite.
pub mod InPlace
pub mod Mappings
pub mod Plans
