pub mod Compared
pub mod Comparisons
pub mod LineFunctions
pub mod Verdicts
pub mod inside
