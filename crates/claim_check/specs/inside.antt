-- What only private contracts and proofs cite.
pub mod Chains
pub mod Fields
pub mod Labels
pub mod Marks
pub mod Numbers
pub mod Slots
pub mod Tables
