pub mod Lines
pub mod Octets
pub mod Prefix
pub mod Texts
