pub mod Cubes
pub mod Inputs
pub mod Limits
pub mod inside
