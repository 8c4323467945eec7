pub mod Statuses
pub mod NoFloats
pub mod NoMemory
pub mod Ids
pub mod MadeBodies
pub mod Picked
