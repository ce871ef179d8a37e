-- What only private contracts and proofs cite.
pub mod Bindings
pub mod Verdicts
