pub mod Radicands
pub mod Rationals
pub mod Values
pub mod Extraction
pub mod Misfits
pub mod WholeFactors
pub mod ProductMisfits
pub mod Shared
