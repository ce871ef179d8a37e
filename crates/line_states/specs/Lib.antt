pub mod Gathers
pub mod States
pub mod Steps
pub mod inside
