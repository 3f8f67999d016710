pub mod Opened
pub mod Joined
pub mod NoNewNames
pub mod Forms
pub mod Bounds
pub mod Finished
pub mod Places
pub mod Pairs
pub mod Beside
pub mod Splits
pub mod Joins
pub mod Ones
pub mod Fronts
pub mod Progress
pub mod Begun
pub mod Sorted
pub mod OneOrder
pub mod Products
pub mod Joints
pub mod JointBounds
pub mod LastSteps
pub mod JointPlaces
pub mod Readied
pub mod Stepped
pub mod Small
pub mod Misfits
pub mod Neighbours
pub mod Gathered
pub mod Leads
pub mod HeldNumbers
pub mod HeldFactors
pub mod HeldPairs
mod GatheredParts
mod SpreadFits
pub mod HeldProducts
mod FreeBytes
pub mod GatheredCounts
pub mod JoinedCounts
mod Parted
mod Rejoined
mod SortedBeside
pub mod Shared
