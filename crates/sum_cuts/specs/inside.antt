pub mod Functions
pub mod Wide
