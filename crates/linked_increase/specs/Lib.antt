pub mod Fraction
pub mod Paths
pub mod Exact
pub mod Scaled
pub mod Laws
