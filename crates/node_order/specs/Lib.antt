pub mod Keys
pub mod Sorting
pub mod Picking
pub mod Ranking
pub mod Roots
pub mod Fronts
