pub mod Octets
pub mod DigestOctets
pub mod Bounds
