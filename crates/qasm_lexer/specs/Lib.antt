pub mod Limits
pub mod Tokens
