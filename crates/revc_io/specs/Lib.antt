pub mod Faults
pub mod Held
pub mod Passing
pub mod Reading
pub mod Memory
