pub mod SquareFactors
pub mod SmoothNumbers
pub mod Steps
pub mod Ends
pub mod LeftOf
pub mod CleanParts
pub mod CleanLaws
pub mod CleanProducts
mod Shared
