pub mod Sums
pub mod Folding
pub mod Turned
mod Lanes
