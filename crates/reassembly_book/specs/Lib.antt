pub mod Kept
pub mod Laws
pub mod OpeningStays
pub mod State
pub mod Steps
