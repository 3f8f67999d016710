pub mod Replacing
pub mod Walks
pub mod Laws
