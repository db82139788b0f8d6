pub mod Ends
pub mod Paths
pub mod Steps
pub mod Asks
