pub mod Lengths
pub mod Roles
pub mod Attributes
pub mod Utf8Tokens
