pub mod Halves
pub mod Unfinished
pub mod Nodes
pub mod Reductions
pub mod Pairs
pub mod Connectives
