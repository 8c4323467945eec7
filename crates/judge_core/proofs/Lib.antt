pub mod Judging
pub mod Merging
pub mod Lists
pub mod Equal
