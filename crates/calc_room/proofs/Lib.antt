pub mod SpanLaws
pub mod Classes
pub mod NumberSpans
pub mod NumberBytes
pub mod TreeBytes
mod Shared
