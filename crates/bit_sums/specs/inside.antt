-- What only private contracts and proofs cite.
pub mod Firsts
pub mod Joins
pub mod Putting
pub mod Steps
