pub mod Literals
pub mod Measures
pub mod Loads
pub mod PlainValues
pub mod PlainOverflows
pub mod PlainTrees
