pub mod Hosts
pub mod Names
pub mod Captions
pub mod Placing
pub mod Voices
pub mod NameLaws
pub mod Local
