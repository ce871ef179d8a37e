-- What only private contracts and proofs cite.
pub mod Heaps
pub mod Kept
pub mod Lines
