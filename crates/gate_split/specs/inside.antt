-- What only private contracts and proofs cite.
pub mod Counts
pub mod Idle
