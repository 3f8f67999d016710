mod Heavy
mod Joints
mod Joined
mod Settled
mod Lacking
pub mod Opened
mod HalfPowers
mod Finished
mod Measures
mod Children
mod Rows
mod Falls
mod Arms
pub mod NodeRewrites
pub mod TreeRooms
pub mod PlainNodes
pub mod Overflowing
pub mod EasyNodes
pub mod NodeAnswers
pub mod Steps
pub mod Quotients
pub mod Folded
pub mod Parents
pub mod ChildRooms
pub mod Ready
pub mod Results
pub mod Sides
pub mod Told
pub mod TreeBits
pub mod Shared
pub mod Connected
pub mod NumberBeside
