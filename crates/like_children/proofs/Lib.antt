pub mod Items
mod Pairs
pub mod Folds
pub mod Kids
pub mod Many
pub mod NumbersIn
pub mod Openings
pub mod SoFar
pub mod OneOrder
pub mod Parts
pub mod Addends
pub mod Fits
pub mod Counted
pub mod Permutations
pub mod Places
pub mod OwnPowers
pub mod Shared
