pub mod Costs
pub mod Split
pub mod inside
