pub mod Budgets
pub mod Claims
pub mod Kept
pub mod Limits
pub mod Measures
pub mod Settled
pub mod Variables
pub mod inside
