pub mod Polynomials
pub mod Packed
pub mod Terms
pub mod Rows
pub mod Unfits
pub mod Binomials
