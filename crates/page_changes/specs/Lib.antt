pub mod Beside
pub mod Here
pub mod Marks
pub mod ByNumber
pub mod References
pub mod Flags
