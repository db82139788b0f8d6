pub mod Estimates
pub mod Timer
pub mod Rules
pub mod Laws
