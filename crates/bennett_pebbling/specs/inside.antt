-- What only private contracts and proofs cite.
pub mod Changes
pub mod Costs
pub mod Marks
