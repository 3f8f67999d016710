pub mod Meant
pub mod Enough
pub mod Slopes
pub mod ExpansionsMeant
pub mod RootsMeant
pub mod StoredAgain
pub mod Decided
pub mod DecimalsMeant
