-- What only private contracts and proofs cite.
pub mod Mappings
pub mod Stages
pub mod Ways
