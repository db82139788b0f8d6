pub mod Fall
pub mod Modes
pub mod Table
pub mod Laws
