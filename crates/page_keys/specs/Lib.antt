pub mod Keys
pub mod Same
pub mod PageKeys
pub mod Nodes
pub mod References
pub mod Classes
pub mod Standing
pub mod Laws
