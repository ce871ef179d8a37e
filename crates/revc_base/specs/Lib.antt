pub mod Bits
pub mod inside
pub mod Limits
