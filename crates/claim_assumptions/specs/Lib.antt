pub mod Assumptions
pub mod Laws
pub mod Settling
pub mod inside
