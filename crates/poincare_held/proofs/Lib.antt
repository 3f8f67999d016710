pub mod LineLemmas
pub mod AnsweringLemmas
mod Shared
