pub mod Spans
pub mod Summing
