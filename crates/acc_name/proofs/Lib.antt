pub mod Blanks
pub mod Choosing
pub mod Marks
pub mod Keeping
pub mod Hearing
pub mod Deciding
pub mod Alone
pub mod Plain
pub mod Trimmed
pub mod SaidAgain
pub mod ToldAgain
pub mod NamedAgain
mod Unnamed
