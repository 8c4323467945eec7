pub mod Frames
pub mod Pushing
