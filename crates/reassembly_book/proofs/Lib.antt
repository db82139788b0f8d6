pub mod Arrivals
pub mod Bounds
pub mod Kept
pub mod Merging
