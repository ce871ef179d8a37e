pub mod Limits
pub mod Products
pub mod inside
