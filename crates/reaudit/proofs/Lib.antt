pub mod Counts
pub mod Placing
pub mod Earlier
pub mod Kept
pub mod Sums
pub mod InOrder
mod Reaching
mod Along
pub mod Marking
mod Live
pub mod SameRows
pub mod ListChanges
pub mod Halves
pub mod Turns
