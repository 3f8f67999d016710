pub mod State
pub mod Breakers
pub mod Laws
pub mod CountBreaker
pub mod NeverBreaker
pub mod SilentBreaker
pub mod Watch
