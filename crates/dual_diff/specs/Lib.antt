pub mod Occurring
pub mod Pairs
pub mod Derivatives
pub mod Placing
pub mod Lists
pub mod Writing
pub mod WritingLaws
