pub mod Timers
pub mod Windows
