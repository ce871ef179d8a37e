pub mod Parting
pub mod Limits
pub mod Verify
pub mod Outcomes
pub mod inside
