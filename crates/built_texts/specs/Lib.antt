pub mod Forms
pub mod Meanings
pub mod Pieces
pub mod Programs
pub mod Ways
