pub mod SlotLemmas
mod Shared
