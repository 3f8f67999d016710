pub mod Polling
pub mod Arming
pub mod Sweeping
pub mod Determined
pub mod Runs
pub mod Stops
mod Shared
