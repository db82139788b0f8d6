pub mod Going
pub mod Lane
pub mod Laws
pub mod Moves
