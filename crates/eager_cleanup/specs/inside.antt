-- What only private contracts and proofs cite.
pub mod Known
pub mod Sweeps
