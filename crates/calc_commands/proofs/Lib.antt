mod Shared
pub mod Digits
pub mod Values
pub mod Runs
pub mod Lines
pub mod Dumps
pub mod Splitting
pub mod Colons
pub mod HelpLines
