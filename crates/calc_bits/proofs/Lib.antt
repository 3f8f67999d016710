pub mod Quotients
pub mod RootsAbove
pub mod MassLaws
pub mod ClassMasses
pub mod Fitting
pub mod Held
pub mod Parts
pub mod HeldByOne
pub mod NoLarger
mod Shared
pub mod SmallLaws
