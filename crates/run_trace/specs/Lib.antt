pub mod Initials
pub mod Rates
pub mod Telling
pub mod Trace
