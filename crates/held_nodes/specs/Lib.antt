pub mod Held
pub mod Moves
pub mod Plans
pub mod Prices
pub mod inside
