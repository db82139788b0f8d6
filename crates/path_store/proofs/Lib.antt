mod Rising
mod Ordered
pub mod Parts
