pub mod Fits
pub mod Compiled
pub mod Flips
pub mod Names
pub mod Readings
