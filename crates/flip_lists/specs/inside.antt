-- What only private contracts and proofs cite.
pub mod Index
pub mod Looks
pub mod Marks
