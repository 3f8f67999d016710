pub mod PowerSteps
pub mod PowerAnswers
pub mod PowerRules
pub mod Misfits
pub mod Rooms
pub mod Bits
