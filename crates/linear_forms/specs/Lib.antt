pub mod Bases
pub mod Forms
pub mod Limits
pub mod Pairs
pub mod Sums
pub mod inside
