pub mod Decisions
pub mod Grants
pub mod KeptMarks
pub mod Lists
pub mod PathSets
pub mod RunMarks
pub mod Sums
pub mod Parts
