pub mod Depths
pub mod inside
