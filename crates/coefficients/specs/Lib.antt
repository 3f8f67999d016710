pub mod Multiples
pub mod Coefficients
pub mod Pairs
pub mod Bytes
pub mod Overflows
pub mod Rooms
