pub mod Limits
pub mod Results
pub mod WellFormed
pub mod inside
