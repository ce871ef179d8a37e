pub mod Answers
pub mod Bound
pub mod Repeated
pub mod inside
