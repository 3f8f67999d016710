pub mod BlockLends
pub mod Blocks
pub mod Bytes
pub mod RegionLends
pub mod Regions
