pub mod ListedChildren
pub mod PutBefore
pub mod LastSums
mod Shared
