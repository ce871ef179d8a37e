-- What only private contracts and proofs cite.
pub mod Fields
pub mod Marks
pub mod Operands
pub mod Placing
pub mod Walks
