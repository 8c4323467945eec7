pub mod Bypass
pub mod Shapes
