pub mod Divisors
pub mod Newton
pub mod Coprime
pub mod LowestTerms
pub mod FitTests
pub mod Signed
pub mod Orders
pub mod Products
pub mod Sums
pub mod PowerLaws
pub mod FractionPowers
pub mod Reciprocals
pub mod Shorts
mod Shared
pub mod SmallLaws
