pub mod Bits
pub mod Rooms
pub mod Answers
pub mod HandedOn
pub mod NodeBits
pub mod NodeRooms
