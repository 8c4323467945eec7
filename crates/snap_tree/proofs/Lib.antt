pub mod Growth
pub mod Cuts
pub mod EachRow
pub mod Opening
pub mod Entering
pub mod Sized
pub mod Found
pub mod RowLimits
pub mod Wellness
pub mod Tagging
pub mod Labelled
pub mod Spotting
pub mod Climbing
pub mod Weights
pub mod Naming
pub mod Soundness
mod LangLists
