pub mod Merged
pub mod Latest
pub mod PartLaws
pub mod Anew
