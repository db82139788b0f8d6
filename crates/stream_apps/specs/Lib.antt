pub mod Apps
pub mod AppSteps
pub mod Kept
pub mod Starts
pub mod Turns
pub mod OnTime
pub mod Example
