pub mod Deriving
pub mod Spending
pub mod Tables
