pub mod Proper
pub mod Inverted
pub mod Rooted
