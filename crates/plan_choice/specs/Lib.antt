pub mod Blocks
pub mod Choices
pub mod Lean
pub mod inside
