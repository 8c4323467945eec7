pub mod Meant
pub mod Causes
