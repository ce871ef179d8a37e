-- What only private contracts and proofs cite.
pub mod Fields
pub mod Tables
