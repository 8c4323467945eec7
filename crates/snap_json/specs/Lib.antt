pub mod Faults
pub mod Fields
pub mod Seen
pub mod Pages
pub mod Small
pub mod Written
pub mod Tokens
pub mod Straight
