pub mod Cuts
pub mod Regions
pub mod Zeros
