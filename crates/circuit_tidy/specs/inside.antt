-- What only private contracts and proofs cite.
pub mod BitRows
pub mod Sweeping
pub mod Walking
pub mod Work
