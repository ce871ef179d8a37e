pub mod Answers
pub mod Faults
pub mod Forms
pub mod Productions
pub mod Sentences
pub mod inside
