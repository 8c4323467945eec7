pub mod Fitting
pub mod Making
pub mod Outcomes
pub mod Telling
