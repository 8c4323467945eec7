pub mod Judged
pub mod Marks
pub mod Local
