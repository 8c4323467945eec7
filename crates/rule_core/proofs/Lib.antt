pub mod WordLaws
pub mod Shortness
pub mod Gathering
pub mod Targets
pub mod Affecting
