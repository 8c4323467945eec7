pub mod Words
pub mod Entries
pub mod Reading
pub mod Taking
pub mod Standing
pub mod Progressing
pub mod Effects
