pub mod Giving
pub mod Stops
pub mod Parts
mod Shared
