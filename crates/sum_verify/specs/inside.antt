-- What only private contracts and proofs cite.
pub mod Forms
pub mod Nodes
pub mod Rewritten
pub mod Faults
