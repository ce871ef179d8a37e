pub mod Loaded
pub mod Masks
