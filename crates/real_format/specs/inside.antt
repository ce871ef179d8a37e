-- What only private contracts and proofs cite.
pub mod Parts
pub mod Reading
pub mod Lines
pub mod Labels
pub mod Stamps
pub mod Says
