pub mod FaultLine
pub mod Status
pub mod Telling
pub mod Audit
pub mod Arguments
