pub mod Fragments
pub mod Stopping
pub mod ByRows
pub mod Local
pub mod AtAGlance
