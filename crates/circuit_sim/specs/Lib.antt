pub mod Limits
pub mod Planes
pub mod Rows
pub mod inside
