pub mod IdSet
pub mod Addresses
pub mod Steps
