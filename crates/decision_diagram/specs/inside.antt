-- What only private contracts and proofs cite.
pub mod Flipping
pub mod Memos
