pub mod Bits
pub mod Growing
pub mod Limits
pub mod Products
pub mod Sums
pub mod inside
