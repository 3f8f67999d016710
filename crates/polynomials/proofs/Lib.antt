pub mod Worth
pub mod Exponents
pub mod Normal
pub mod Merges
pub mod MergeLoops
pub mod Scaled
pub mod Products
pub mod Coefficients
pub mod Insertions
pub mod GreatestExponents
pub mod Causes
pub mod BinomialTheorem
pub mod PowerLists
mod Shared
