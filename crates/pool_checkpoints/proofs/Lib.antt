pub mod RollingBack
pub mod Restoring
pub mod Nesting
mod Shared
