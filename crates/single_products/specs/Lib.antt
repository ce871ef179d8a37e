pub mod Singles
pub mod inside
