pub mod Words
pub mod Roles
pub mod Attributes
pub mod Tokens
pub mod Numbers
pub mod Values
pub mod States
pub mod Owning
