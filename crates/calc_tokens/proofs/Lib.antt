mod Shared
pub mod Runs
pub mod Digits
pub mod Parts
pub mod WordRuns
pub mod Prefixes
pub mod Scans
pub mod Shorter
pub mod OneScan
pub mod Outcomes
pub mod Language
