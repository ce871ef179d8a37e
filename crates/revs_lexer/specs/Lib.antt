pub mod Kinds
pub mod inside
pub mod Limits
pub mod Rest
pub mod Spelling
pub mod Tokens
