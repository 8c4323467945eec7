pub mod ByNode
pub mod Merging
pub mod Parts
pub mod Again
