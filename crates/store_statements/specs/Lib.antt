pub mod Schema
pub mod Stored
pub mod Changes
pub mod Making
pub mod Opening
