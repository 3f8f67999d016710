pub mod Bounds
pub mod Checks
pub mod EasyTrees
pub mod Faults
pub mod Steps
