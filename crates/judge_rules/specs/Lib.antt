pub mod Rules
pub mod Broken
pub mod Keys
pub mod Numbers
pub mod Acks
pub mod Mappings
pub mod Clashes
