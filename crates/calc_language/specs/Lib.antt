pub mod Tokens
pub mod Grammar
pub mod Reads
pub mod Texts
pub mod Faces
