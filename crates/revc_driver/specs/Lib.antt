pub mod Commands
pub mod Top
pub mod inside
