-- What only private contracts and proofs cite.
pub mod Depths
pub mod Orders
pub mod Steps
