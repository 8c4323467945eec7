pub mod Sizes
pub mod Firsts
pub mod Shape
pub mod Numbers
pub mod Each
pub mod Light
pub mod Faultless
