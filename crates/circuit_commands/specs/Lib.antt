pub mod Circuits
pub mod Limits
pub mod Stat
pub mod Run
pub mod Convert
pub mod Tidy
pub mod Outcomes
pub mod inside
