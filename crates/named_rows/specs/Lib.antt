pub mod ByName
pub mod Placed
pub mod RowLends
