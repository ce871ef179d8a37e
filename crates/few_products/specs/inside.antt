-- What only private contracts and proofs cite.
pub mod Definitions
pub mod Rewriting
pub mod Writing
