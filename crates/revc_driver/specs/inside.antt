-- What only private contracts and proofs cite.
pub mod Ends
pub mod Mappings
pub mod Outcomes
