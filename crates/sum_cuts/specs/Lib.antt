pub mod Cuts
pub mod Tables
pub mod inside
