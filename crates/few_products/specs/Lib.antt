pub mod Fewer
pub mod inside
