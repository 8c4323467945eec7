pub mod Wires
pub mod Doors
pub mod Memory
pub mod Ends
