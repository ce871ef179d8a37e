-- What only private contracts and proofs cite.
pub mod Parting
pub mod Renumbering
