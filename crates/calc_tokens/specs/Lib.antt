pub mod Limits
pub mod Placed
pub mod Tokens
pub mod Literals
pub mod Scanned
pub mod Faults
