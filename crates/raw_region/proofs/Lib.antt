mod Shared
pub mod Blocks
pub mod Puts
pub mod Slides
pub mod Turns
pub mod Runs
