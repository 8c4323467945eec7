pub mod Judgements
pub mod Composites
pub mod Outcomes
pub mod RowLookups
pub mod Equality
