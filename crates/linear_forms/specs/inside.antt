pub mod Combining
pub mod Exchanged
