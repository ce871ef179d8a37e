-- What only private contracts and proofs cite.
pub mod Parts
pub mod Naming
pub mod Tests
pub mod Names
pub mod Spread
pub mod Says
