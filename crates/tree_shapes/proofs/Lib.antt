pub mod Naturals
pub mod Room
mod Shared
