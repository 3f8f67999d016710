pub mod Answering
pub mod Flags
pub mod Meters
