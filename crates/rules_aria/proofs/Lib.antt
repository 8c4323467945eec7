pub mod Beginning
pub mod Joining
pub mod Stopping
pub mod AttributesTold
pub mod ReferencesTold
pub mod OwnersTold
pub mod Local
