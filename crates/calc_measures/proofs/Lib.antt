pub mod CeilLog2
pub mod Nests
pub mod OverflowNodes
pub mod Inverses
pub mod LiteralValues
pub mod Weights
pub mod ZeroBounds
mod Shared
pub mod SmallLaws
