pub mod Faults
pub mod Table
pub mod Places
pub mod Calls
pub mod Named
