pub mod Number
pub mod Widening
pub mod Laws
