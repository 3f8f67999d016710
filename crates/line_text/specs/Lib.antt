pub mod Content
pub mod Places
pub mod Writing
pub mod Lengths
