-- What only private contracts and proofs cite.
pub mod Faults
pub mod Links
