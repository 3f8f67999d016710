pub mod Rounding
pub mod Partials
pub mod Decimals
pub mod DecimalTexts
pub mod Signs
