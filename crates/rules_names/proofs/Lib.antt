pub mod Naming
pub mod Local
