pub mod Denominators
pub mod Masses
pub mod Bounds
