pub mod Terms
pub mod Sums
pub mod Products
pub mod Inverses
pub mod SquareRoots
pub mod Calculations
