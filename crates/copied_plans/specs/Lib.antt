pub mod Levels
pub mod Plans
pub mod inside
