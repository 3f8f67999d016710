pub mod Multiples
pub mod Counts
pub mod Coefficients
pub mod PowerCounts
pub mod Handed
pub mod NodeCounts
pub mod Rooms
pub mod JoinedSpans
pub mod Calm
pub mod Zeros
mod Shared
