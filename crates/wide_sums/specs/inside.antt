-- What only private contracts and proofs cite.
pub mod Forms
pub mod Rows
pub mod Toggles
