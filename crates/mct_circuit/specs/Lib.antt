pub mod Gates
pub mod Sizes
pub mod Laws
pub mod inside
