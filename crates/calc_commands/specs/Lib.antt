pub mod Commands
pub mod Numbers
pub mod Parsing
pub mod Reports
pub mod Equations
pub mod Ranges
pub mod Words
