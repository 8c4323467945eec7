pub mod Judgings
pub mod AgainLaws
pub mod Shares
pub mod Verdicts
