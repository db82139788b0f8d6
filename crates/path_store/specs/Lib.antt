pub mod Counts
pub mod Granted
pub mod Rising
pub mod InfiniteMappings
pub mod Receiving
pub mod Lines
pub mod Passing
