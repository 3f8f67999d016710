mod Shared
pub mod LeadingRuns
pub mod Reader
pub mod ReaderSteps
pub mod ReaderComplete
pub mod ReaderSound
pub mod Written
pub mod Spelled
pub mod ReadLaws
pub mod Scanner
