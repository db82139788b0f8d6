pub mod Planned
pub mod Telling
