-- What only private contracts and proofs cite.
pub mod Copied
pub mod Levelling
pub mod Straight
