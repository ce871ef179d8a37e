-- What only private contracts and proofs cite.
pub mod Merging
pub mod Products
