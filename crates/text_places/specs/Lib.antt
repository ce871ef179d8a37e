pub mod Bytes
pub mod Gaps
pub mod Limits
pub mod Places
