pub mod Codes
pub mod Owned
pub mod Slots
pub mod Standings
pub mod Texts
