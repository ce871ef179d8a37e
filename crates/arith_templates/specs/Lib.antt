pub mod Adder
pub mod Limits
pub mod Meets
pub mod Numbers
pub mod Places
pub mod Ripples
pub mod Texts
