pub mod Flips
pub mod Kinds
pub mod Looks
pub mod Marks
pub mod Settling
pub mod Spans
pub mod inside
