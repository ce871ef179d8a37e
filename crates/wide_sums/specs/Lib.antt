pub mod Wide
pub mod inside
