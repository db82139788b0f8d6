pub mod Runs
pub mod Places
pub mod Mappings
pub mod Kept
pub mod Laws
pub mod Learning
pub mod Live
