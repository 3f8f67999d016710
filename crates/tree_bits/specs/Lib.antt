pub mod Weighted
pub mod Exponents
pub mod HeldTrees
pub mod Powers
pub mod Children
pub mod Factors
pub mod Rows
pub mod Joined
