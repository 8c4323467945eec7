pub mod Cuts
pub mod Seeking
pub mod Finding
pub mod Walking
pub mod Telling
