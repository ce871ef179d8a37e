pub mod BitWords
pub mod Lines
pub mod Faults
pub mod Outcomes
