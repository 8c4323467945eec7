pub mod Wording
pub mod Spaces
