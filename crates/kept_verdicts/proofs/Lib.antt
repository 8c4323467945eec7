pub mod LatestPlaces
pub mod MarkSteps
