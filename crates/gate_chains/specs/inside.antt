-- What only proofs cite.
pub mod Chains
