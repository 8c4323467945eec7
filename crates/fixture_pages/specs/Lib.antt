pub mod Letters
pub mod Sketches
pub mod Texts
