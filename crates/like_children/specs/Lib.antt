pub mod Keyed
pub mod Neighbours
pub mod Numbers
pub mod Folds
pub mod Children
pub mod Opening
pub mod Joining
