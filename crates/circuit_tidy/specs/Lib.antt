pub mod Blocks
pub mod Elimination
pub mod Limits
pub mod Pairs
pub mod Tidied
pub mod inside
