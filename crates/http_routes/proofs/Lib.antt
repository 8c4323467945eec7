pub mod Named
pub mod Chosen
pub mod CallNames
pub mod Looking
