pub mod InOrder
pub mod Tables
pub mod Changes
pub mod Inside
pub mod Opened
pub mod Keyed
pub mod Queries
pub mod Stores
