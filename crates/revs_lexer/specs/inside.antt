-- What only private contracts and proofs cite.
pub mod Packed
pub mod Pieces
