pub mod Extending
pub mod Turns
