pub mod Refusals
pub mod Clean
pub mod Settling
pub mod Check
pub mod Eval
pub mod Outcomes
pub mod inside
