pub mod Needs
pub mod Handed
pub mod Children
pub mod Exponents
