pub mod LimbParts
pub mod Sums
pub mod TermParts
pub mod Closeness
pub mod DigitRuns
pub mod RationalDecimals
pub mod TermsSoFar
pub mod SignsTold
