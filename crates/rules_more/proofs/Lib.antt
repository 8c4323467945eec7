pub mod Trailing
pub mod Local
mod Climbing
mod Passing
mod Sharing
mod Keeping
mod Preparing
mod Showing
mod Containing
