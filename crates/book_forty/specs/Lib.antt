pub mod Book
pub mod Local
