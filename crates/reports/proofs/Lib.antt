pub mod Chosen
pub mod Worst
pub mod Summing
pub mod Records
pub mod Ids
pub mod Tokens
pub mod Listed
