pub mod RootLaws
pub mod Handed
pub mod Spanned
pub mod RootBits
pub mod RootValues
pub mod HeldRationals
mod Shared
