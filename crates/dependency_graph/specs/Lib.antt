pub mod Folds
pub mod Graphs
pub mod Uses
pub mod Widths
pub mod inside
