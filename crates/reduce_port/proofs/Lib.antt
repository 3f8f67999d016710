pub mod Filling
pub mod Leaves
pub mod ChildBytes
mod Shared
