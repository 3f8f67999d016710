pub mod Spans
pub mod Counts
pub mod Needs
pub mod Powers
