pub mod Blocks
pub mod Ipv4
pub mod Reading
