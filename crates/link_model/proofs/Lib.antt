mod Fates
mod NumberedLines
mod Queues
pub mod Found
mod Ranges
mod Placing
pub mod Order
pub mod Later
pub mod Shown
pub mod Plain
pub mod Waits
pub mod Queued
