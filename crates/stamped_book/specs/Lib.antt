pub mod Entering
pub mod Journal
