pub mod Toggles
pub mod inside
