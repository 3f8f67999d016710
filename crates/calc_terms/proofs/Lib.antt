pub mod Codes
pub mod Lowest
pub mod Signs
pub mod FractionFacts
pub mod Names
pub mod LowBytes
pub mod Sizes
pub mod ShortForm
pub mod Codec
pub mod Leaves
mod Shared
pub mod SmallFractions
pub mod SmallLaws
