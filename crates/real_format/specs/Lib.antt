pub mod Words
pub mod Header
pub mod Real
pub mod Faults
pub mod Written
pub mod Compiled
pub mod Converted
pub mod inside
