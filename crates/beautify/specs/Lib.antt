pub mod Lists
pub mod Showing
pub mod Owed
pub mod Shares
pub mod Drafts
pub mod OwnFaces
