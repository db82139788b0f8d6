pub mod Ends
pub mod Going
pub mod Lane
pub mod Laws
pub mod Lists
pub mod Moves
pub mod Rounds
pub mod Rules
