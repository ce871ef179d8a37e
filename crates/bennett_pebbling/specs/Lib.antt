pub mod Blocks
pub mod Pebbling
pub mod inside
