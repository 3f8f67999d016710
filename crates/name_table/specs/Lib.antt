pub mod Tables
pub mod Slots
pub mod Held
pub mod Filling
pub mod Storing
pub mod Laws
