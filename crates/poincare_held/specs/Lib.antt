pub mod Answering
pub mod Breaking
pub mod Pages
pub mod Sessions
pub mod Stopping
pub mod Writing
