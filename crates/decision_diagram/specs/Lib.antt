pub mod Diagrams
pub mod Functions
pub mod Growth
pub mod Limits
pub mod inside
