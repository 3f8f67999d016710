pub mod RootAnswers
pub mod Refusals
