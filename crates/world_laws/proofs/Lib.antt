pub mod Writes
pub mod Rounds
pub mod Weaving
pub mod Lanes
pub mod Asks
pub mod Falls
pub mod Worlds
pub mod Promises
pub mod Announcements
pub mod Joins
pub mod Standby
pub mod Keys
pub mod Numbers
pub mod Places
pub mod Whole
mod Words
mod Choices
