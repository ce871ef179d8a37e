-- What only private contracts and proofs cite.
pub mod Aligned
pub mod Marks
pub mod Sums
