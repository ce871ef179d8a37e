pub mod Graphs
pub mod Lone
pub mod Plain
pub mod Uses
pub mod inside
