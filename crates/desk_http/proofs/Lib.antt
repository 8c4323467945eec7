pub mod Quiet
pub mod Moments
pub mod Runs
pub mod Tables
pub mod Served
pub mod Responding
pub mod DoorLaws
