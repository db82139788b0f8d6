mod Short
mod Parts
mod Sorting
mod Sums
pub mod CarriedRuns
pub mod FirstOctets
