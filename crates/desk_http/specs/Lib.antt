pub mod Printed
pub mod Answering
pub mod Linking
pub mod Desk
pub mod Serving
pub mod Doors
